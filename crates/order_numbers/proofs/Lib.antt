pub mod Parts
pub mod Twice
pub mod Records
