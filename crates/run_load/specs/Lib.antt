pub mod Prepared
pub mod Room
pub mod Lent
