pub mod LawsCells
pub mod LawsLines
pub mod LawsBoard
pub mod LawsPage
pub mod Theorems
pub mod Blank
