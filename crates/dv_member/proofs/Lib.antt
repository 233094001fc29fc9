pub mod Seen
pub mod Leading
pub mod Batching
pub mod Members
pub mod Arriving
pub mod Turns
pub mod Calls
