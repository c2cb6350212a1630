pub mod Parts
pub mod Versions
pub mod Keep
pub mod WellFormed
pub mod Symbols
pub mod Grammar
pub mod SpecText
