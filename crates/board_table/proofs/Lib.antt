-- Lemmas on the shared board, each file on the ones above it.
pub mod Beginnings
pub mod Turns
pub mod Holding
pub mod Seating
pub mod Meeting
pub mod Calling
pub mod Answering
