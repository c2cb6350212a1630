pub mod Answers
pub mod Sizes
pub mod Ends
pub mod Outcome
