pub mod Steps
pub mod Loops
pub mod Marks
pub mod Flags
pub mod Values
pub mod Endings
pub mod Replies
pub mod Exact
