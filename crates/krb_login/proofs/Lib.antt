pub mod LoginLaws
pub mod Following
pub mod Written
pub mod Completed
pub mod Stepping
pub mod AtTheStore
pub mod Remembering
