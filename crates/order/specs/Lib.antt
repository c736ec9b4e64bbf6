pub mod LinkOrder
pub mod Bytes
pub mod Columns
