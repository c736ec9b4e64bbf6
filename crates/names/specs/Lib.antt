pub mod Names
pub mod Fixed
pub mod Index
pub mod GapName
pub mod Append
pub mod Listed
