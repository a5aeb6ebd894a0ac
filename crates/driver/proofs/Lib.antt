pub mod Accepting
pub mod Waked
pub mod Answering
pub mod Telling
pub mod Resting
