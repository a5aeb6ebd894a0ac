pub mod Loads
pub mod Writes
pub mod Fills
pub mod Soon
