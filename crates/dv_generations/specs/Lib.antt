pub mod Feeds
pub mod Linked
