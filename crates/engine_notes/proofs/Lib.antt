pub mod Steps
pub mod KindNumbers
pub mod Whole
