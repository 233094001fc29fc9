pub mod Linking
pub mod Showing
pub mod Turning
