pub mod Going
pub mod Task
pub mod Message
