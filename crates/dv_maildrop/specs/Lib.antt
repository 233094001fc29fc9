pub mod Lines
pub mod Maildrops
pub mod Messages
pub mod Answers
pub mod Scripts
pub mod Counts
pub mod Laws
