pub mod Sweep
pub mod Leads
