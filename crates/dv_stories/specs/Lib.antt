pub mod Stories
pub mod Growing
