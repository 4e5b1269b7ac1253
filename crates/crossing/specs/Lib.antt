pub mod Crossing
pub mod Tried
