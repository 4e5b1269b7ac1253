pub mod Postsolve
pub mod internal
