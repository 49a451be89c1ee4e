pub mod Joined
pub mod Voices
pub mod Marks
pub mod Notes
pub mod Sounded
pub mod Examples
