pub mod Records
pub mod Ordered
pub mod Labelled
pub mod Keys
