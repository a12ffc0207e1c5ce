pub mod Sectors
pub mod SectorLemmas
pub mod Pages
pub mod Tables
pub mod Rows
pub mod Whole
pub mod Arrivals
pub mod PageReads
