pub mod Runs
pub mod Places
pub mod Putting
pub mod Readying
pub mod Calls
pub mod Writing
pub mod Syncing
pub mod Listing
