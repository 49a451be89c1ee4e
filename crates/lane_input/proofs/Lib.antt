pub mod Tests
pub mod Numbers
pub mod Marks
pub mod Rows
pub mod Lanes
pub mod Reading
pub mod Parts
