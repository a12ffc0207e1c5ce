pub mod Access
pub mod Counters
pub mod Protection
pub mod Registers
pub mod Table
pub mod Trap
