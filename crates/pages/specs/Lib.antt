pub mod Page
pub mod Columns
pub mod Paging
pub mod Writing
