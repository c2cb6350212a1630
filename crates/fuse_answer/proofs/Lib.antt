pub mod Known
pub mod Light
pub mod AtPlaces
pub mod Lawful
pub mod Kept
pub mod Printed
mod FewLeaves
