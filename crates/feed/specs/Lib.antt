pub mod Numbers
pub mod Order
pub mod Taken
pub mod Chain
pub mod Names
pub mod Rule
pub mod Marks
