pub mod Members
pub mod Inside
pub mod Batches
pub mod Reaching
pub mod Calls
