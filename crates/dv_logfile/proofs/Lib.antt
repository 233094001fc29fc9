mod Counted
mod Gate
pub mod Groups
mod Images
mod Commits
mod Heals
pub mod Logs
pub mod Patches
pub mod Reading
pub mod OneLog
pub mod OneScan
pub mod Spots
pub mod Settling
