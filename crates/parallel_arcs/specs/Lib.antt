pub mod ParallelArcs
pub mod internal
