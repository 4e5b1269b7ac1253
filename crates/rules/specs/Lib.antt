pub mod Table
pub mod Tried
