pub mod Spot
pub mod Ramp
pub mod Latest
pub mod Said
