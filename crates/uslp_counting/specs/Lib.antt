pub mod Places
pub mod History
pub mod Demand
pub mod Console
pub mod Restarts
pub mod Updated
pub mod Blocks
pub mod Live
