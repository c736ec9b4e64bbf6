pub mod MergedByKey
pub mod OneSection
pub mod AllSections
pub mod Entered
pub mod Theorem
pub mod Cases
