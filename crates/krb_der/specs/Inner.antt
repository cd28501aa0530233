-- Words that only private contracts and proofs cite.
pub mod Shortest
pub mod LengthView
pub mod HeadView
pub mod Limited
