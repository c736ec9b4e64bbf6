pub mod Apart
pub mod Joined
