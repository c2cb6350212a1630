pub mod Endings
pub mod Causes
pub mod Lines
pub mod Complete
