pub mod Reading
pub mod Row
pub mod Standing
pub mod Walking
pub mod Stepping
