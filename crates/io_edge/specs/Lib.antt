pub mod Outside
pub mod Asked
pub mod Files
pub mod Gone
pub mod Streamed
