pub mod Buckets
pub mod Kept
pub mod Removal
