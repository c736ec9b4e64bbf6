pub mod Room
pub mod Lines
pub mod Laid
