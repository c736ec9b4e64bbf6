pub mod Linking
pub mod Ends
pub mod Records
pub mod Walking
pub mod Answering
