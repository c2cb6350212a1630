pub mod Candidates
pub mod Parts
pub mod Extents
