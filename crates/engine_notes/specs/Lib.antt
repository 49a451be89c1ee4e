pub mod Noting
pub mod Parts
