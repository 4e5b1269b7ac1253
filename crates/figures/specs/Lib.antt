pub mod Figures
pub mod internal
