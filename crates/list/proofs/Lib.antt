pub mod Bools
pub mod Elements
pub mod Filled
pub mod Parts
pub mod FilledPart
pub mod Rows
pub mod Padded
pub mod Places
