pub mod Place
pub mod Answers
pub mod Which
pub mod Edits
pub mod Routes
pub mod Examples
pub mod Replies
