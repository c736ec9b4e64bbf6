pub mod Laws
pub mod Stages
pub mod Parts
pub mod Columns
