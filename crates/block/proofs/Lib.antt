pub mod Steps
pub mod Blocks
pub mod Moves
pub mod Rests
