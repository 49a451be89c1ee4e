pub mod Scene
pub mod Reads
pub mod Signal
