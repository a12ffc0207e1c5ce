pub mod Pages
pub mod Making
pub mod Images
