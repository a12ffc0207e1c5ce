pub mod Gone
pub mod Streaming
pub mod Told
