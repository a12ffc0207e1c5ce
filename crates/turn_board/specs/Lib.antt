pub mod Seats
pub mod History
pub mod Rule
pub mod Steps
pub mod Calls
pub mod Lends
