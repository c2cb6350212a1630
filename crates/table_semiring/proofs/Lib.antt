pub mod Finds
pub mod Lawful
