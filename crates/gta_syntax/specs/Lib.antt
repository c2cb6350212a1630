pub mod Sources
pub mod Rules
pub mod Refusals
pub mod Faults
pub mod Refused
pub mod ByGrammar
