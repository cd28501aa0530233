pub mod Calendar
pub mod ClockLaws
