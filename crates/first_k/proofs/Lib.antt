pub mod Merges
pub mod Places
pub mod Rows
pub mod Picks
