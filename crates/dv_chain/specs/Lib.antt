pub mod Walks
pub mod Files
pub mod Openings
pub mod Rest
pub mod Creations
