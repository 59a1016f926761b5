pub mod LawsLookup
pub mod LawsDistinct
pub mod LawsInitializers
pub mod LawsFitting
