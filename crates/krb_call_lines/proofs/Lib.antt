pub mod CallLaws
pub mod DigitLaws
