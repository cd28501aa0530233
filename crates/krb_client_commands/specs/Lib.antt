pub mod Status
pub mod FaultText
pub mod Requesting
pub mod Finishing
pub mod Words
pub mod Inner
