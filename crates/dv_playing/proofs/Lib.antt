pub mod Steps
pub mod Plays
pub mod Failures
