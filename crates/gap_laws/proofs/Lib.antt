pub mod Named
pub mod Tables
pub mod Covers
pub mod AllGaps
pub mod Cases
