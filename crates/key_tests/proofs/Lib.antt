pub mod LaneRows
pub mod Named
