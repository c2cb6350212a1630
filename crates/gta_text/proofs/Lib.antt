pub mod Digits
pub mod Skipping
pub mod RawLines
pub mod Slices
pub mod FoundLines
