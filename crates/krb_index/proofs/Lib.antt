pub mod MaximaLaws
pub mod IndexLaws
