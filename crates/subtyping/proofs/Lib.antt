pub mod Blank
pub mod LawsQuestion
pub mod LawsStructs
pub mod LawsTypesBelow
pub mod LawsUnequal
