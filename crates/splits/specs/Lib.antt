pub mod Columns
pub mod Table
pub mod Updates
pub mod Questions
pub mod Bytes
pub mod Rising
