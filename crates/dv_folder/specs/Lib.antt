pub mod Kinds
pub mod Names
pub mod Ways
pub mod Paths
