pub mod Laws
pub mod Entries
