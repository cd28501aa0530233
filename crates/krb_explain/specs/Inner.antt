-- Words that only private contracts cite.
pub mod Tables
pub mod Borrowed
