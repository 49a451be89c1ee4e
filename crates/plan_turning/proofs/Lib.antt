pub mod Rows
pub mod Turned
