pub mod Resting
pub mod Paid
pub mod Turned
pub mod Making
pub mod Filed
pub mod Grouped
pub mod Carried
pub mod Cleared
