pub mod Guarded
pub mod Same
pub mod Placed
pub mod Agreed
pub mod Ran
