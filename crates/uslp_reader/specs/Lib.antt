pub mod Reader
pub mod EndToEnd
pub mod Behind
