pub mod Frame
pub mod Reserved
