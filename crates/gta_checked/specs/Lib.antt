pub mod Plain
pub mod Tables
pub mod Within
pub mod Cells
pub mod PlainRows
pub mod Codes
