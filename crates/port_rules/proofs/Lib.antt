pub mod Tickets
pub mod Stores
