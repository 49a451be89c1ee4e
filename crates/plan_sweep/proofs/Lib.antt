pub mod Laws
pub mod Fours
pub mod Plains
pub mod Kept
