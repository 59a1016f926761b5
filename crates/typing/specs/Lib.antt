pub mod Runs
pub mod Check
