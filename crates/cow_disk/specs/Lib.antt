pub mod Disk
pub mod Paged
pub mod Sectors
