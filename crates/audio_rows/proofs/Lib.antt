pub mod Numbers
pub mod Parts
pub mod Jobs
pub mod Chunk
pub mod Sweeps
