pub mod Counted
pub mod Rates
pub mod Compiling
pub mod Replies
pub mod Stored
