pub mod Standing
pub mod Ways
pub mod Files
pub mod Writes
pub mod Clearing
