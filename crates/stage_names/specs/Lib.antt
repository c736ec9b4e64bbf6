pub mod StageNames
pub mod Output
