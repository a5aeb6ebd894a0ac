pub mod Ways
pub mod Clear
pub mod Runs
pub mod Bitwise
pub mod Kept
pub mod Marking
pub mod Below
pub mod Bursts
