pub mod Names
pub mod Resolved
pub mod ResolvedOf
pub mod Faults
pub mod Index
pub mod Lists
pub mod Ready
