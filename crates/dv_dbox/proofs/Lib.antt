pub mod Lines
pub mod Guids
pub mod Powers
pub mod Wide
pub mod Again
pub mod Written
pub mod Found
pub mod Taken
