pub mod Finding
pub mod Followed
mod Losing
pub mod Listening
pub mod Moving
pub mod Numbers
pub mod Patching
pub mod Placing
mod Renewing
pub mod Rising
mod Passing
pub mod TakenMore
