pub mod Room
pub mod Scenes
pub mod Worlds
pub mod Moves
pub mod Smalls
