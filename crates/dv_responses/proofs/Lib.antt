mod Closing
pub mod Having
pub mod Items
pub mod Lines
mod Naming
mod Standing
pub mod Searched
