mod Found
pub mod Following
mod Rising
pub mod Searched
mod Turning
mod Worked
