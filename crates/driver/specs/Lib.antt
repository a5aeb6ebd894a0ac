pub mod States
pub mod Devices
pub mod Moves
pub mod Refused
pub mod Requests
pub mod Told
