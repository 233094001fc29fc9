pub mod FieldTexts
pub mod Places
pub mod Rows
pub mod Again
