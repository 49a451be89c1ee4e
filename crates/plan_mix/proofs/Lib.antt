pub mod Laws
pub mod Voices
pub mod Routes
