pub mod Numbers
pub mod Growth
pub mod Laws
pub mod Parts
pub mod Keeping
pub mod Deciding
pub mod Turns
pub mod Codes
