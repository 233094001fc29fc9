pub mod Answers
pub mod Replicas
pub mod Texts
pub mod Laws
pub mod Ranges
pub mod Merging
