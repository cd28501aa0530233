pub mod TableLaws
pub mod ColumnLaws
pub mod DateLaws
pub mod KnownDates
