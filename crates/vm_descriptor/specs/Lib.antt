pub mod Descriptor
pub mod Fields
pub mod Versions
pub mod Maps
pub mod CloneTables
pub mod PageMaps
pub mod Described
pub mod MadeRuns
