pub mod Named
pub mod Sizes
pub mod ReadBack
pub mod Entry
pub mod Found
