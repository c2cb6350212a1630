pub mod SpecRules
pub mod Seen
