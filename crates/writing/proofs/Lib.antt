pub mod LawsPlaced
pub mod LawsText
pub mod LawsNumbers
