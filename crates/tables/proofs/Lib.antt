pub mod Loops
pub mod Lookups
pub mod Faults
pub mod Floors
pub mod Laws
