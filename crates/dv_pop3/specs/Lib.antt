pub mod Retrievals
pub mod Findings
pub mod Clients
pub mod Listings
pub mod Logins
pub mod Exchanges
pub mod Servings
pub mod Entries
