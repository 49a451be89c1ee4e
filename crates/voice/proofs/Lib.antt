pub mod Elements
pub mod Counted
pub mod Ranks
pub mod Since
pub mod Right
pub mod After
pub mod Covered
pub mod Glides
