pub mod Calls
pub mod Passages
pub mod Cutting
