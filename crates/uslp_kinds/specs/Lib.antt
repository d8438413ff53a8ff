pub mod Outcome
pub mod Kinds
pub mod Answers
pub mod Managed
