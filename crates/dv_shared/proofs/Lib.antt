pub mod Owing
pub mod Beginnings
pub mod Grown
pub mod Outcomes
pub mod Committed
pub mod Looked
pub mod Settled
pub mod Numbers
