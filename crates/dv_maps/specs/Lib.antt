pub mod Parts
pub mod Maps
pub mod Texts
pub mod Storages
pub mod Groups
pub mod Laws
pub mod Purges
pub mod Tables
