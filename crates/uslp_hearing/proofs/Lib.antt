pub mod Heard
pub mod Ways
