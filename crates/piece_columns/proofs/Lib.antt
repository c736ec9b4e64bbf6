pub mod Counts
pub mod Chains
pub mod Regions
pub mod Same
