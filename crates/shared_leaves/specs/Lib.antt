pub mod Room
pub mod Leaves
pub mod Lends
pub mod Choices
pub mod Runs
