pub mod Bits
pub mod Values
pub mod Rule
pub mod Steps
pub mod Calls
