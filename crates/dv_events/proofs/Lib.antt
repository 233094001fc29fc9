pub mod Debts
pub mod Stepping
pub mod Loading
pub mod Telling
pub mod Selecting
pub mod Writing
