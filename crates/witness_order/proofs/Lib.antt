pub mod Placed
pub mod Firsts
pub mod Orders
pub mod Meanings
pub mod JoinedLists
