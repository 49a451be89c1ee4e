pub mod Lanes
pub mod Spans
pub mod Places
pub mod Found
pub mod Steps
pub mod Jobs
pub mod Simple
