pub mod Inserted
pub mod Removal
pub mod Search
pub mod Sorting
pub mod Renaming
pub mod Order
pub mod Each
