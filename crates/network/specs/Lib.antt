pub mod Limits
pub mod Network
pub mod ArcList
pub mod Legal
pub mod Program
pub mod Pair
pub mod internal
