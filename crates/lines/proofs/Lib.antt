pub mod Digits
pub mod Puts
pub mod Signs
pub mod Cases
