pub mod Tables
pub mod Images
pub mod Decoded
pub mod Answers
pub mod Pieces
pub mod Bytes
pub mod Entry
