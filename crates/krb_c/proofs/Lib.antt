mod Values
mod Places
mod Move
mod ServiceLaws
mod Requests
mod Truth
mod Memory
mod HeldMessages
mod Logins
mod Turns
pub mod Buffers
