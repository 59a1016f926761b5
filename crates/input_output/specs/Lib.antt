pub mod Within
pub mod Digits
