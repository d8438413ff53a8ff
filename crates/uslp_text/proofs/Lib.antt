pub mod Width
pub mod Telling
