pub mod Answers
pub mod Intervals
pub mod Joined
pub mod Known
