pub mod Claiming
pub mod Fit
pub mod Hears
pub mod Next
pub mod Stays
