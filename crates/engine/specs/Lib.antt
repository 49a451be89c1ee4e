pub mod Noting
pub mod Shown
pub mod Replies
pub mod Said
