pub mod Lines
pub mod Rows
pub mod Total
pub mod Told
