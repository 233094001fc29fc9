pub mod Texts
pub mod Lookup
pub mod Finding
pub mod Shown
pub mod Readings
pub mod Changes
