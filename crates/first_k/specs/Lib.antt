pub mod FirstK
pub mod FirstKLaws
pub mod Merged
pub mod Picks
