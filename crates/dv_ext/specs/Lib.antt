pub mod Tables
pub mod Changes
pub mod Updates
pub mod Quiet
pub mod Sizes
