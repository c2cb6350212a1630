pub mod Best
pub mod SeenLaws
pub mod BestLaws
pub mod Aggregate
pub mod RunEntries
pub mod RunEntryLaws
