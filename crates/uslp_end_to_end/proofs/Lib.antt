pub mod Walk
pub mod Singly
pub mod Stops
pub mod Made
