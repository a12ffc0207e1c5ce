pub mod Places
pub mod World
pub mod Rows
pub mod Changes
pub mod Weight
pub mod Histories
pub mod Seen
pub mod Toy
