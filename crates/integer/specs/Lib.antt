pub mod Gcd
pub mod Whole
pub mod Machine
