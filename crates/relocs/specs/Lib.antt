pub mod Relocs
