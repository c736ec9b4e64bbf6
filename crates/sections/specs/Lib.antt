pub mod Image
pub mod Bytes
pub mod Sections
pub mod Ends
pub mod Alignment
