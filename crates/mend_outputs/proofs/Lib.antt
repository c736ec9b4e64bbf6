pub mod Counts
pub mod Laws
