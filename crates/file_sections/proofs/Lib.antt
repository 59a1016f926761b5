pub mod LawsFile
pub mod LawsLayout
pub mod LawsRecords
pub mod LawsTrees
pub mod LawsFrames
