pub mod Parts
pub mod Looks
pub mod Places
pub mod Laws
