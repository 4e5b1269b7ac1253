pub mod Share
pub mod Examples
pub mod internal
