pub mod InRange
pub mod Modes
pub mod Mstatus
pub mod Protection
pub mod Rows
