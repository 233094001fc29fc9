pub mod Transcripts
pub mod Appends
pub mod Speaking
pub mod Searching
pub mod Clients
pub mod Marks
pub mod SerialSessions
