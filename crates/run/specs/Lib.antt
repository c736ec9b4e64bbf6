pub mod Run
pub mod Answers
pub mod Outputs
