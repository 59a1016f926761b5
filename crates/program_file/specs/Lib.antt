pub mod Reading
pub mod Opened
