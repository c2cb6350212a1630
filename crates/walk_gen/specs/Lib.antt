pub mod Walks
pub mod Extents
pub mod Splits
