pub mod Tables
pub mod Entry
