pub mod Entry
pub mod Finding
pub mod Holes
pub mod KeyHash
pub mod Meeting
pub mod Pick
pub mod Putting
pub mod Room
