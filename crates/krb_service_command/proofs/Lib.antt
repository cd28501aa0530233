pub mod FaultLaws
pub mod GoingLaws
pub mod EndLaws
pub mod ExplainLaws
pub mod TaskLaws
pub mod WordLaws
