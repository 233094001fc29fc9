pub mod Growing
pub mod Stories
pub mod Counting
pub mod Written
pub mod Serials
