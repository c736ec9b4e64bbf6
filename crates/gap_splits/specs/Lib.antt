pub mod Entering
pub mod Added
pub mod Answers
