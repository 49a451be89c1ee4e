pub mod Mapped
pub mod Planned
pub mod Assembled
