pub mod View
pub mod Answer
