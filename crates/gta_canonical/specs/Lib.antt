pub mod Canonical
pub mod Places
