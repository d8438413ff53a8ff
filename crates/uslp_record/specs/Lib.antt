pub mod Slots
pub mod Record
pub mod Judging
pub mod Made
