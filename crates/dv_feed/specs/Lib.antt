pub mod Appends
pub mod Feeds
pub mod Marking
pub mod Publishing
pub mod Taking
