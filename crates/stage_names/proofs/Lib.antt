pub mod Fits
pub mod First
