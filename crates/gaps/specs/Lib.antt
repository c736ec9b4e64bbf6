pub mod Gaps
pub mod Found
pub mod Search
