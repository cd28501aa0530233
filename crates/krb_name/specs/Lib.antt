pub mod Name
pub mod Named
pub mod Text
pub mod Reading
pub mod Inner
