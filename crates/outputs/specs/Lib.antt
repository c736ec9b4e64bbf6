pub mod Outputs
pub mod Room
