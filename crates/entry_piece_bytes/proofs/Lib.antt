pub mod Steps
pub mod Leaving
pub mod Laws
