pub mod Entries
pub mod Disks
pub mod Opens
