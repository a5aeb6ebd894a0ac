pub mod Numbers
pub mod Fields
pub mod Pieces
pub mod Nth
pub mod Left
pub mod Whole
