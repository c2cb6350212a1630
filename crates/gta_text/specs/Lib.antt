pub mod Numbers
pub mod Capped
pub mod Names
pub mod Lines
pub mod Tokens
pub mod Text
