pub mod FoundOnce
pub mod Numbers
pub mod Cached
