pub mod Kinds
pub mod Instruction
pub mod Table
