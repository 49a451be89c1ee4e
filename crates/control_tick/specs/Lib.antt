pub mod Turn
pub mod Rounds
