pub mod Places
pub mod Words
pub mod Found
pub mod Products
pub mod All
