pub mod BaseKey
pub mod Hmac
pub mod Kdf
