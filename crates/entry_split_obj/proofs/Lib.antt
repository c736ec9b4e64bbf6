pub mod Passed
pub mod Alike
pub mod Lines
pub mod Finish
