pub mod Packed
pub mod Ranks
pub mod Survivors
pub mod Tidy
