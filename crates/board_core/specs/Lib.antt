-- The pure board, from its lists to what holds after every list of calls.
pub mod Ordered
pub mod Board
pub mod Calls
pub mod Replay
pub mod Sound
pub mod Lists
pub mod Places
