pub mod Bounds
pub mod LP
pub mod Net
