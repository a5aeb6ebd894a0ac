pub mod Wrote
pub mod Page
pub mod Sheets
pub mod Judged
pub mod Plain
pub mod Stands
