pub mod Answer
pub mod Digits
pub mod Clock
pub mod Opening
pub mod Body
pub mod Text
