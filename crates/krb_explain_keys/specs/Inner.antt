-- Words that only private contracts cite.
pub mod Added
pub mod Looks
pub mod Shut
pub mod Seen
