pub mod Registers
pub mod Commands
pub mod Sibling
