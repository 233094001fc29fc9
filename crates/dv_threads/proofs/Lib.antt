pub mod Totals
pub mod Above
pub mod Transcripts
pub mod Sessions
pub mod Beginnings
pub mod Serves
pub mod Handing
pub mod Closing
