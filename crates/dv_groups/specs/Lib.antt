pub mod Changes
pub mod Groups
pub mod Lengths
pub mod Limits
