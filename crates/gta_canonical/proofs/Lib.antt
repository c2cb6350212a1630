pub mod Fronts
pub mod Lexed
pub mod Spelled
pub mod ReadBack
