pub mod Reaching
pub mod Lasting
pub mod Lists
