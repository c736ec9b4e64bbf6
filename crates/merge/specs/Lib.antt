pub mod Merge
pub mod Answers
pub mod Kept
