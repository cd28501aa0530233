pub mod AddedLaws
pub mod OpeningLaws
pub mod SightLaws
