pub mod Assembly
pub mod Blocks
pub mod Levels
pub mod Guest
