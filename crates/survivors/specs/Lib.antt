pub mod Survivors
pub mod internal
