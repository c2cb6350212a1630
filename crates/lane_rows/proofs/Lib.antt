pub mod CountLanes
pub mod MinLanes
pub mod DenseRows
pub mod Lifts
pub mod Runs
pub mod MaxLanes
pub mod TruthLanes
pub mod Zips
