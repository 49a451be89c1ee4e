pub mod Using
pub mod Things
