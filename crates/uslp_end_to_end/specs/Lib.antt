pub mod Many
pub mod Singly
