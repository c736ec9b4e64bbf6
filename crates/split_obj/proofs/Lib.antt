pub mod Turns
pub mod Halving
pub mod Carried
