pub mod CheckFile
pub mod Demand3
pub mod Example
pub mod Growth
