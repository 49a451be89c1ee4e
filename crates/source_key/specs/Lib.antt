pub mod Text
pub mod Bytes
pub mod Numbered
pub mod Examples
