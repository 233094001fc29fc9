pub mod FirstLines
pub mod Folds
