pub mod Laws
pub mod Ranks
pub mod Unique
pub mod Parts
pub mod Shifted
pub mod Sections
