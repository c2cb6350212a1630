pub mod Auto
pub mod AutoOf
pub mod Functions
pub mod Numbering
pub mod MonoidOf
pub mod TransitionOf
