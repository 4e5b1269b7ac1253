pub mod Ratio
pub mod Same
pub mod Rat
pub mod Frac
pub mod Sum
