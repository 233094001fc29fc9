pub mod Members
pub mod Stories
pub mod Transcripts
pub mod Served
pub mod Runs
pub mod Crossing
