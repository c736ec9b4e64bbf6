pub mod Graph
pub mod Joined
pub mod Columns
pub mod Tables
