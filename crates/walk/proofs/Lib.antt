pub mod Cases
pub mod Deciding
pub mod Adding
pub mod Giving
pub mod Added
pub mod Regions
pub mod Refused
