-- Lemmas on the value of all rows, each file on the ones above it.
pub mod Bounds
pub mod Longest
pub mod Walking
pub mod Turning
pub mod Taking
pub mod WorkerTurns
pub mod Accounting
pub mod Costs
pub mod Sharing
