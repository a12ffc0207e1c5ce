mod Stacks
mod Disks
pub mod Replies
