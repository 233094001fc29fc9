pub mod Logs
pub mod Notes
pub mod Writes
