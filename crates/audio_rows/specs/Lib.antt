pub mod Rows
pub mod Work
pub mod Passes
