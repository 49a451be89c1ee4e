pub mod Keys
pub mod Registry
pub mod Adding
pub mod Written
pub mod Audio
pub mod Sequence
pub mod Accepted
