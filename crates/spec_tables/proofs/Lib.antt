pub mod Fronts
pub mod Lines
pub mod NumberOf
pub mod Rows
pub mod Told
