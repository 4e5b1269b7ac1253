pub mod Writes
pub mod Logged
