pub mod Forks
pub mod Name
pub mod NameOrder
