pub mod Ended
pub mod Added
pub mod Units
pub mod Walked
pub mod Readable
