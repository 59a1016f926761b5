pub mod LawsLabels
pub mod LawsMarks
pub mod LawsAssignment
pub mod LawsVariable
pub mod LawsForVars
pub mod LawsCondition
pub mod LawsReturns
pub mod LawsCallStatement
