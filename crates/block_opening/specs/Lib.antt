pub mod Codes
pub mod Marks
pub mod Draws
pub mod Rows
