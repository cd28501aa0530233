pub mod Reading
pub mod Walk
pub mod Whole
pub mod Adding
pub mod Paths
