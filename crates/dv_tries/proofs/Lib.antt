pub mod Growing
pub mod Durable
pub mod Standing
pub mod Keeping
