pub mod Lists
pub mod Places
pub mod Marked
pub mod Order
