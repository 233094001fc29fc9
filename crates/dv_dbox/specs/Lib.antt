pub mod BoxTexts
pub mod Reading
pub mod Mails
