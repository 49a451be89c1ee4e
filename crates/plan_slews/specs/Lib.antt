pub mod Rows
pub mod Seen
pub mod Put
