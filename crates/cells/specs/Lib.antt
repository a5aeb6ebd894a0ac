pub mod Words
pub mod Planes
