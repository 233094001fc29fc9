pub mod Spaced
pub mod Sources
pub mod Rests
pub mod Beside
pub mod Opened
pub mod Printed
pub mod Fetches
pub mod Extending
