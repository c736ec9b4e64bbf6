pub mod Alignment
pub mod Rows
pub mod Blocks
pub mod Bytes
pub mod Rising
pub mod Next
pub mod Meeting
pub mod Lent
