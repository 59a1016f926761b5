pub mod LawsInput
