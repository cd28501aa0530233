pub mod Times
pub mod Inner
