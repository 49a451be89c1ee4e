pub mod Keys
pub mod Registry
pub mod Info
pub mod Named
pub mod Standard
pub mod Examples
pub mod StandardExamples
