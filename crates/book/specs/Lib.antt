pub mod Refused
pub mod Asks
pub mod Book
pub mod Answers
pub mod Law
pub mod Jobs
