pub mod Bytes
pub mod Errors
pub mod Laws
pub mod Made
pub mod Order
pub mod Packed
