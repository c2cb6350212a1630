-- The value of all rows from pieces, and what workers take and leave.
pub mod Walk
pub mod Slots
pub mod Pockets
pub mod Leaves
pub mod Turns
pub mod Sites
pub mod Workers
pub mod Stops
pub mod Jobs
