pub mod Memory
pub mod Cells
