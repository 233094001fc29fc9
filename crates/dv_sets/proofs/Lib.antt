pub mod Chosen
pub mod Swept
mod Largest
pub mod Printed
pub mod Pieces
pub mod EndTexts
pub mod Reading
pub mod Words
pub mod Reread
pub mod Joins
pub mod Known
pub mod PrintedFlags
