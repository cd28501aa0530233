pub mod Places
pub mod Inner
