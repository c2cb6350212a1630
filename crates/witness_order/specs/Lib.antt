pub mod Rankings
pub mod Shortlex
pub mod Ranked
pub mod Before
