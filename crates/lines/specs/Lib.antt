pub mod Line
pub mod Ring
