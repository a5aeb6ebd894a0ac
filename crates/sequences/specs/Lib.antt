pub mod Held
pub mod Gone
pub mod Times
