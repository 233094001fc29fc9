pub mod Layout
pub mod Gates
pub mod Reading
pub mod Commits
pub mod Scans
pub mod Settling
