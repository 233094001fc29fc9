pub mod Tries
pub mod Images
pub mod Standing
pub mod Commits
pub mod Durable
pub mod Laws
