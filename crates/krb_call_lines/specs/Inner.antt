pub mod Moments
pub mod Held
