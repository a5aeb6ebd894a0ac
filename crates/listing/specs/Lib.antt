pub mod Words
pub mod Page
