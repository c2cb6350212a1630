pub mod Partition
pub mod Views
pub mod Rule
pub mod Draws
pub mod Steps
pub mod Hands
