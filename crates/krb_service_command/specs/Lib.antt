pub mod Status
pub mod AnswerEnd
pub mod Answering
pub mod Explaining
pub mod Words
pub mod Inner
