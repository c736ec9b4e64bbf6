pub mod Lent
pub mod Placed
