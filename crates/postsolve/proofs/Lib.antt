pub mod Steps
pub mod Reduced
