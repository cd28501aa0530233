pub mod RequestLaws
pub mod FinishLaws
