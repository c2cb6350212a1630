pub mod Numbers
pub mod Suffixes
pub mod Digits
pub mod Nested
