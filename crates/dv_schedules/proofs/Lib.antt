pub mod Equals
pub mod Calls
pub mod Prefixes
pub mod Turns
pub mod Writes
pub mod Weaving
