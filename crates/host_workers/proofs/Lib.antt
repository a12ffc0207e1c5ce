pub mod Joining
pub mod States
pub mod Crosses
