pub mod Steps
pub mod Places
pub mod Listing
pub mod Systems
pub mod States
pub mod Samples
pub mod Starts
pub mod Laws
