pub mod LawsCounts
pub mod LawsTallies
pub mod LawsWalk
pub mod LawsTally
pub mod Theorems
pub mod Blank
pub mod Cases
