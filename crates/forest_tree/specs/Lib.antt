pub mod Operations
pub mod Tree
pub mod Step
pub mod Sound
pub mod Ahead
pub mod Children
pub mod Projection
pub mod Toy
