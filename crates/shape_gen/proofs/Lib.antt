pub mod Lists
pub mod Splits
pub mod Parts
pub mod Counts
