pub mod Search
pub mod internal
