pub mod Settles
pub mod Members
pub mod Turning
pub mod Committed
pub mod Telling
pub mod Selected
pub mod Fresh
