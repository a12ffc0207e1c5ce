pub mod Views
pub mod Bits
pub mod Moves
pub mod Calls
