pub mod Taking
pub mod Steps
pub mod Calls
