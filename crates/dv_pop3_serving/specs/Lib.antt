pub mod Ends
pub mod Removals
pub mod Serves
pub mod NextRuns
