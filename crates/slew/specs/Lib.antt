pub mod Slew
pub mod Examples
