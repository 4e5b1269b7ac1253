pub mod Text
pub mod Line
pub mod Pass
pub mod Placed
pub mod Page
