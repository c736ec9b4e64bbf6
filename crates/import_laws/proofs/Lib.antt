pub mod Theorems
pub mod ReadBack
pub mod Never
