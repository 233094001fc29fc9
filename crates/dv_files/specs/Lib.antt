pub mod Leavings
pub mod Quiet
pub mod Reading
pub mod Resting
pub mod Texts
pub mod Writing
