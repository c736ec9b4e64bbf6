pub mod Forgets
pub mod Least
pub mod Originated
pub mod Table
