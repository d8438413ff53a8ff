pub mod Laid
pub mod Bounds
pub mod Samples
pub mod Demand
