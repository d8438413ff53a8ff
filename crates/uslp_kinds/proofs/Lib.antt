pub mod Back
pub mod Cases
pub mod Equality
pub mod Outcomes
pub mod Firsts
pub mod Protocol
pub mod Behind
