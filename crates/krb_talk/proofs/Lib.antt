pub mod Lengths
pub mod Checks
pub mod Talking
pub mod LawsOfLists
pub mod Ending
pub mod FewMessages
pub mod Turning
pub mod AfterList
