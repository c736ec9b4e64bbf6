pub mod Common
pub mod Sections
pub mod Records
