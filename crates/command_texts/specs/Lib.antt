pub mod Text
pub mod Writes
pub mod Status
pub mod Lost
pub mod Seeded
