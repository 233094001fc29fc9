pub mod Walks
pub mod Reading
pub mod Keywords
pub mod Sources
pub mod Reports
pub mod Mails
pub mod Plans
pub mod Rebuilding
