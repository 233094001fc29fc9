pub mod Clients
pub mod Texts
pub mod Catching
