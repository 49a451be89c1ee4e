pub mod Fill
pub mod Part
pub mod Rows
pub mod Padded
