pub mod Handed
pub mod Ending
pub mod Tickets
pub mod Registers
pub mod Children
pub mod Commands
pub mod Fork
