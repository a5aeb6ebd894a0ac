pub mod Bits
pub mod Worded
pub mod Planed
pub mod Told
pub mod Rows
