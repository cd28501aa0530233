pub mod Time
pub mod Moments
pub mod Clock
pub mod Inner
