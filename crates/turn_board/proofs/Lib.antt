pub mod Views
pub mod Names
pub mod Entries
pub mod Moves
pub mod Calls
