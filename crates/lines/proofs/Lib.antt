pub mod Rings
pub mod Delays
