pub mod Lookup
pub mod Literal
