pub mod Encode
pub mod Offset
pub mod Listing
pub mod Fit
