pub mod Examples
pub mod Keeping
pub mod Groups
pub mod Laws
pub mod Steadiness
pub mod Turning
