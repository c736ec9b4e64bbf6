pub mod Names
pub mod Tables
pub mod Entry
pub mod Answers
pub mod Theorems
