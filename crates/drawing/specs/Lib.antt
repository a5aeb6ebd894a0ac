pub mod Registers
pub mod Drawn
pub mod Speed
