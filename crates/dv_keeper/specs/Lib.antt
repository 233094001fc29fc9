pub mod Sessions
pub mod Closing
pub mod Turns
pub mod Commits
pub mod Selecting
