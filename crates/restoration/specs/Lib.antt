pub mod Restore
pub mod internal
