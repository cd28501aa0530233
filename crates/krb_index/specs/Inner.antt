pub mod Buckets
pub mod Maxima
