pub mod Schedule
pub mod Columns
pub mod Tower
