pub mod Index
pub mod Records
pub mod Walk
