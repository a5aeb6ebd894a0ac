pub mod Hex
pub mod Pages
pub mod Rows
