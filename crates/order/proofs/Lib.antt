pub mod Cases
pub mod Bytes
pub mod Marks
pub mod Errors
pub mod Stage
pub mod Theorems
