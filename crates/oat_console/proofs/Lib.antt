pub mod LawsSame
pub mod LawsSum
pub mod LawsNumbers
pub mod LawsInput
