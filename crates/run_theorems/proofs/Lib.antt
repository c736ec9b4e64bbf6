pub mod Running
pub mod Ended
pub mod Order
pub mod Restoring
