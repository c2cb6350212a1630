pub mod Convolutions
mod Slots
mod Rows
mod Maps
mod Searches
mod Merges
mod Gathers
mod Shifts
