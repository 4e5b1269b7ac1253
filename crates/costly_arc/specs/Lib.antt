pub mod CostlyArc
pub mod Seen
pub mod internal
