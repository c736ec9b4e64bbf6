pub mod Trim
pub mod Steps
pub mod Lent
