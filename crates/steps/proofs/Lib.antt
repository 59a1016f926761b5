pub mod LawsStepping
pub mod LawsNames
pub mod LawsPlain
pub mod LawsRows
pub mod LawsParameters
pub mod LawsGlobal
pub mod LawsBody
