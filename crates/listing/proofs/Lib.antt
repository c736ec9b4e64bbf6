pub mod First
pub mod Rest
pub mod Seeks
pub mod Sums
pub mod Names
pub mod Nexts
pub mod Whole
pub mod Cases
