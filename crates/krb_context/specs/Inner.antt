pub mod Prepared
pub mod Forms
pub mod Ring
pub mod Unwraps
