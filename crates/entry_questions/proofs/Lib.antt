pub mod Passed
pub mod Laws
pub mod Numbers
