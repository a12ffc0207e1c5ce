pub mod Ram
pub mod Answers
