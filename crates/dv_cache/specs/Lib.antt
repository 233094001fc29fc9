pub mod Begun
pub mod Caches
pub mod Finding
pub mod Written
