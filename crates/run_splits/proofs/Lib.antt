pub mod Keeping
pub mod Steps
pub mod Needs
pub mod Tables
