pub mod Codes
pub mod Late
pub mod Made
pub mod TextLemmas
pub mod Booted
pub mod Ended
pub mod First
pub mod Seeding
