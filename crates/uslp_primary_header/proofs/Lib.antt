pub mod Checks
pub mod ReadPaths
pub mod RoundTrip
pub mod Rows
pub mod WritePaths
pub mod Behind
pub mod Equality
