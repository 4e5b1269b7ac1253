pub mod Laws
pub mod Pairs
pub mod NodeTimes
pub mod Known
pub mod Upward
pub mod Passing
pub mod Going
