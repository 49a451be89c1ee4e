pub mod Codes
pub mod Fresh
