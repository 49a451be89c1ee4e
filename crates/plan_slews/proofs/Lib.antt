pub mod Lanes
pub mod Ticks
pub mod Motions
pub mod News
pub mod Putting
