pub mod Job
pub mod Ground
