pub mod LawsIndex
pub mod LawsSameTypes
pub mod LawsFormedTypes
pub mod LawsParts
pub mod LawsWalk
pub mod LawsChains
pub mod LawsRecordChains
