pub mod Starts
pub mod Causes
pub mod Leaving
pub mod Begins
