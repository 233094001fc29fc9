pub mod Keys
pub mod Counting
pub mod Saving
mod Placing
pub mod Spelled
mod Spans
pub mod Moving
pub mod Rewriting
pub mod Purged
pub mod Thinned
pub mod Kept
mod Respelled
pub mod Leaving
pub mod ByFile
