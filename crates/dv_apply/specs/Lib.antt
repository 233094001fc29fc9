pub mod Alike
pub mod Answers
pub mod Bodies
pub mod States
pub mod Preparing
