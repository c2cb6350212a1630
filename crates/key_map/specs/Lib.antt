pub mod Maps
pub mod Convolution
pub mod Slots
pub mod SlotLaws
pub mod Rows
pub mod Merging
pub mod Loose
pub mod ZeroBand
