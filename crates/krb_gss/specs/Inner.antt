pub mod Reading
pub mod Checked
pub mod Putting
