pub mod States
pub mod Opening
pub mod Rest
pub mod Faults
pub mod Paying
pub mod Carried
pub mod Commits
