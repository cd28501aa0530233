pub mod Side
pub mod Mic
pub mod Wrap
pub mod Faults
pub mod Sequence
pub mod Context
pub mod Texts
pub mod Inner
