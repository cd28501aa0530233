-- Reading from left to right as a computation, for those who define a type of their own that can be
-- read. `laws` says that it is exactly what Spells, Place and Fault say: a value if it is spelled,
-- else a fault by the rules.
pub mod Steps
pub mod Whole
pub mod Read
pub mod Gives
pub mod Listed
pub mod Parts
