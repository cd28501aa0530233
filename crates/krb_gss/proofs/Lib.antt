pub mod ReadLaws
pub mod OpenLaws
pub mod ChecksumLaws
pub mod WrittenLaws
pub mod NegotiationLaws
pub mod ListingLaws
pub mod AloneLaws
