pub mod Lines
pub mod Lent
pub mod Ended
