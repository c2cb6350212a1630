pub mod Lanes
pub mod Rows
pub mod RowLaws
pub mod MaxLanes
pub mod TruthLanes
pub mod CountLanes
