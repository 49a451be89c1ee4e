pub mod Feeders
