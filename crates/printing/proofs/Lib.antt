pub mod LawsDecimal
pub mod LawsWritten
pub mod LawsLines
pub mod LawsRows
pub mod LawsPrint
pub mod LawsTold
pub mod Theorems
