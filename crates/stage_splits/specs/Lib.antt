pub mod StageSplits
pub mod Output
