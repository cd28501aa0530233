pub mod TicketKeys
pub mod Stages
pub mod Facts
pub mod Judging
pub mod GoingOn
pub mod Decisions
pub mod Requests
pub mod Wanted
