pub mod Laws
pub mod Marking
pub mod Written
