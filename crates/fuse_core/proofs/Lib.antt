pub mod Weighs
pub mod Joins
pub mod Picks
pub mod Reading
pub mod Leaves
pub mod Accepted
pub mod Costs
mod Placed
mod Wired
mod Planned
