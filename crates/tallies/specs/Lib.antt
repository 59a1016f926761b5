pub mod Tallies
pub mod Tally
pub mod Walk
