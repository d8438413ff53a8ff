pub mod Flags
pub mod Lengths
pub mod Paths
pub mod Finishes
pub mod Parts
pub mod Headers
pub mod Reserves
pub mod Filled
