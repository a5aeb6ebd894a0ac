pub mod Rows
pub mod Clear
