pub mod Rows
pub mod Outcome
pub mod Members
pub mod Tables
pub mod Sort
pub mod InsertBy
pub mod Bounds
pub mod Slices
