pub mod Kept
pub mod Soon
