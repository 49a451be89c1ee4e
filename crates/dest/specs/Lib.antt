pub mod Entries
pub mod Adding
pub mod Info
pub mod Replies
