pub mod Items
pub mod Products
pub mod Keyed
pub mod Spans
pub mod Permutations
pub mod Finds
pub mod Tables
