pub mod Judge
pub mod Refusal
