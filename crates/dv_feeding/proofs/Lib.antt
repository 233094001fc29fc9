pub mod Words
pub mod Entries
pub mod Feeds
pub mod Instances
