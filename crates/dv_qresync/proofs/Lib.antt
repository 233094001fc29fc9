pub mod Rows
pub mod Gathered
pub mod Telling
pub mod Merged
pub mod Catching
