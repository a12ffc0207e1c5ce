pub mod Image
pub mod Key
pub mod Receiver
pub mod Reply
