pub mod NameTable
pub mod Stored
pub mod Columns
