pub mod Answers
pub mod Bytes
pub mod Nothing
pub mod Order
pub mod Parts
pub mod Records
pub mod Laws
