pub mod Done
pub mod Parts
pub mod Paths
pub mod EndToEnd
pub mod Own
pub mod Behind
pub mod Asks
