pub mod NodeLists
mod Raised
pub mod Crosses
