pub mod Cases
pub mod GapNames
pub mod Lent
pub mod Naming
pub mod Units
pub mod Entries
pub mod Turns
