pub mod Fed
pub mod Registry
pub mod Output
pub mod Reading
pub mod Ramped
pub mod Answers
