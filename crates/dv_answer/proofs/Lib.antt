pub mod Tracking
pub mod Keeping
pub mod Limits
pub mod Answering
