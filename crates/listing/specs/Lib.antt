pub mod Listing
pub mod Cursor
pub mod Tables
pub mod Room
pub mod Lent
