pub mod Peers
pub mod Stores
