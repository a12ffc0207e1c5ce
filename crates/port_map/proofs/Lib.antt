pub mod Ranges
pub mod Quiet
