pub mod Talk
pub mod Settle
pub mod Finish
pub mod Members
pub mod Laws
pub mod Toy
pub mod Report
pub mod Joins
