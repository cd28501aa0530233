pub mod BaseKey
pub mod Derived
pub mod KeyBytes
pub mod NotSealed
