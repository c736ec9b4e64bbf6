pub mod Traced
pub mod Origins
pub mod Table
