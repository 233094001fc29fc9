pub mod Removals
pub mod Closing
pub mod Runs
