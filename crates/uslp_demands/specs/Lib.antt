pub mod Promise
pub mod Clause
pub mod Cases
