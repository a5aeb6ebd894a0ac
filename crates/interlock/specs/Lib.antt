pub mod Guard
pub mod Alike
pub mod Agree
