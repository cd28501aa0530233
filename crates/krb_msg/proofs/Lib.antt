pub mod Messages
pub mod ReplySizes
pub mod Sizes
pub mod HighNumbers
pub mod SpelledLaws
pub mod OverLaws
