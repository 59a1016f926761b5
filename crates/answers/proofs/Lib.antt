pub mod LawsAnswers
pub mod LawsOperators
