pub mod Asked
pub mod Fetch
pub mod Heard
