pub mod Bytes
pub mod Deciding
pub mod Locks
pub mod Words
pub mod Spans
