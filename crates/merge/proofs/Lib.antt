pub mod Rounds
pub mod Decisions
pub mod AtOnce
pub mod Keeping
pub mod Tables
pub mod Refusals
pub mod Cases
