pub mod Search
pub mod Adding
pub mod Found
pub mod Replies
