pub mod Outputs
pub mod Lent
