pub mod Chosen
pub mod Counting
pub mod Commands
pub mod Kept
pub mod Heard
mod Rows
