pub mod Rounding
pub mod Rows
pub mod Values
