pub mod Walk
pub mod Steps
pub mod Adding
pub mod Giving
