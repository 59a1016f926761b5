pub mod Demands
pub mod Places
pub mod Shape
pub mod Tree
