pub mod Transcripts
pub mod Scripts
pub mod Sessions
pub mod Serves
pub mod Jobs
pub mod NextRuns
