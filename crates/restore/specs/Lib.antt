pub mod Restoring
pub mod Alignments
pub mod Misfits
pub mod Nobits
