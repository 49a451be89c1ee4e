pub mod Told
pub mod Cells
