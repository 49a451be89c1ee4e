pub mod Apart
pub mod Turned
pub mod Rounds
