pub mod Begin
pub mod Seen
mod Pieces
mod Sums
