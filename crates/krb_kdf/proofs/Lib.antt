mod Blocks
mod Derived
pub mod Lengths
