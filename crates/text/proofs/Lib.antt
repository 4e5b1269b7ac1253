pub mod Writing
pub mod Pages
pub mod Words
pub mod Count
pub mod Lines
pub mod Signed
pub mod Back
pub mod Instances
