pub mod Lost
pub mod Stages
pub mod Finishes
