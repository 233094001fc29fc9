mod Concluding
mod AllServed
pub mod Statuses
pub mod Takes
mod Leaving
pub mod Timed
mod Served
pub mod Folders
pub mod Parsed
mod ScriptRuns
mod StorageRuns
pub mod WholeRuns
mod ClientRuns
mod Watched
mod WatchRuns
mod WrongWords
pub mod Reached
mod FoundTold
mod Untold
mod Tasked
pub mod Told
mod Restarting
mod NextRuns
