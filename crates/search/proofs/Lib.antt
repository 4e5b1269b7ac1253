pub mod AtNode
pub mod Scans
pub mod Pairs
pub mod Questions
pub mod Behind
pub mod Runs
pub mod Left
