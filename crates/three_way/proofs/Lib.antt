pub mod BothSigns
pub mod Tried
pub mod Laws
