pub mod Load
pub mod Kinds
pub mod Good
pub mod Columns
pub mod Reading
