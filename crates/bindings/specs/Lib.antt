pub mod Bindings
pub mod Buffers
