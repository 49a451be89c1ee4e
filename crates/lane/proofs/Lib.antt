pub mod Views
pub mod Values
