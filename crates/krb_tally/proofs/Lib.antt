mod AddedLaws
pub mod BucketLaws
pub mod OrderLaws
pub mod RemovalLaws
pub mod TallyLaws
