pub mod Reading
pub mod Choice
