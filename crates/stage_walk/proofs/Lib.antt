pub mod Room
pub mod Walked
pub mod Passed
pub mod Lines
