pub mod LawsBindings
