pub mod Slots
pub mod Matrix
pub mod Examples
