pub mod Ready
pub mod Nodes
