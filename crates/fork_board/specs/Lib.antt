pub mod Notes
pub mod Follows
pub mod Passes
pub mod Visits
pub mod Answers
pub mod Swaps
pub mod Deeds
pub mod Holds
