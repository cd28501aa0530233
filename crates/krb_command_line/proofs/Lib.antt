pub mod Getters
pub mod CommandLaws
