pub mod Numbered
pub mod Question
