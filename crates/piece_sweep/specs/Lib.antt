pub mod Sweep
pub mod Overlap
