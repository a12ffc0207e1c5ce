pub mod Working
pub mod Swapping
pub mod Standing
pub mod Hearing
