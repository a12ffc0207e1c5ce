pub mod Assembled
pub mod Bits
pub mod Encoding
pub mod Fields
pub mod Lines
pub mod Loading
pub mod Offsets
pub mod Reading
