pub mod Bounds
pub mod Tests
pub mod Accepted
pub mod Finite
