pub mod Unreadable
pub mod Numbers
pub mod Layout
pub mod Trees
pub mod Frames
pub mod Categories
