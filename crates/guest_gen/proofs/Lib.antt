pub mod Lengths
pub mod Loading
pub mod Steps
