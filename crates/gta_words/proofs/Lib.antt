pub mod Described
pub mod Entries
pub mod Numbers
pub mod Given
