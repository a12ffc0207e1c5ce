pub mod Words
pub mod Notes
