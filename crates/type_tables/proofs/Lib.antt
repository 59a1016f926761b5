pub mod LawsTables
pub mod LawsParts
