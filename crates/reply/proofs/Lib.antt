pub mod Replies
pub mod Lowest
