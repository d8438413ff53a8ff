pub mod Setting
pub mod Accessors
