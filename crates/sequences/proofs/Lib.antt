pub mod Gones
pub mod Fits
