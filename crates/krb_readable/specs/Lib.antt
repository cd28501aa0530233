pub mod Table
pub mod Named
pub mod Enctype
pub mod Date
pub mod Flags
pub mod Readable
pub mod Inner
