pub mod Allowed
pub mod Regions
pub mod Registers
pub mod Spans
