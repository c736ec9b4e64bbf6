pub mod Search
pub mod Answers
pub mod Sorting
pub mod Lent
