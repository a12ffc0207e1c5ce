pub mod Below
pub mod NameMaps
mod Back
mod Keys
mod Names
mod Rows
mod Same
mod Written
