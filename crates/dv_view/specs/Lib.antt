pub mod Clients
pub mod Following
pub mod Laws
pub mod Orders
pub mod Tells
pub mod Told
pub mod Taken
