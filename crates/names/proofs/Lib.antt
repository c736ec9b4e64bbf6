pub mod Laws
pub mod Spelled
pub mod Indexes
pub mod Gaps
pub mod Appends
pub mod Examples
pub mod HexDigits
