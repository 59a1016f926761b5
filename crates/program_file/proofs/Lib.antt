pub mod Blank
pub mod LawsGrowth
pub mod LawsReading
pub mod Theorem
pub mod LawsOpened
