pub mod Stamp
pub mod Bytes
pub mod Keeping
pub mod Memory
pub mod Limit
pub mod Inner
