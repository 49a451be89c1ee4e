pub mod Mul
pub mod State
pub mod Exact
