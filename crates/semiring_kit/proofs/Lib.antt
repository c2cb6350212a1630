pub mod Sums
pub mod KitSums
