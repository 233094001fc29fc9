pub mod Worlds
pub mod Loads
pub mod Answers
pub mod Writes
pub mod Debts
