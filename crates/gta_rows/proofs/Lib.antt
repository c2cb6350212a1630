pub mod Records
pub mod Left
pub mod Places
pub mod Firsts
pub mod Cells
pub mod Bodies
pub mod Refusals
pub mod Tables
