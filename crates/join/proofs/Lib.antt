pub mod Cases
pub mod Members
pub mod Order
pub mod Sizes
pub mod Law
