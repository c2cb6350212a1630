pub mod Letters
pub mod Stands
pub mod Plans
pub mod Wirings
pub mod Places
