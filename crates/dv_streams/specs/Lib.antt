pub mod Calls
pub mod Times
pub mod Channels
pub mod Inputs
