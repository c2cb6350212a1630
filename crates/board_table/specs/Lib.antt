-- The shared board, from what its seats know to what each call answers.
pub mod Views
pub mod Rule
pub mod Steps
pub mod Seen
pub mod Notes
pub mod Changes
pub mod Answers
pub mod Closing
