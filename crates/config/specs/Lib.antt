pub mod Sizes
pub mod Configuration
