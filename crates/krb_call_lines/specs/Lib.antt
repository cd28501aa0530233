pub mod CallLine
pub mod Forms
pub mod TokenText
pub mod Inner
