pub mod Spread
pub mod Parts
pub mod Optimum
pub mod Passed
pub mod Entry
