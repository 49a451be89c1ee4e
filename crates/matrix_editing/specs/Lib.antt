pub mod Drag
pub mod Free
pub mod Examples
