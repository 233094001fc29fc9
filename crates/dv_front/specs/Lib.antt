pub mod Notes
pub mod Lists
pub mod Ends
pub mod Rule
pub mod Steps
pub mod Rolls
pub mod RollRule
pub mod RollSteps
