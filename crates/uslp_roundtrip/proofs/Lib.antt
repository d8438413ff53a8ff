pub mod Complete
pub mod Sound
pub mod Exactly
pub mod Unequal
pub mod Trips
pub mod Demand
pub mod Wrong
