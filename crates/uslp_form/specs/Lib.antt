pub mod Entries
pub mod Form
pub mod FromRow
pub mod Saved
