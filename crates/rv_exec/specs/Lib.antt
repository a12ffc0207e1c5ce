pub mod Words
pub mod Compute
pub mod Branch
pub mod Atomic
pub mod Memory
