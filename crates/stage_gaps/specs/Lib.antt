pub mod StageGaps
