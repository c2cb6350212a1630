pub mod Items
pub mod Goods
pub mod Said
pub mod Fits
pub mod WellRead
