pub mod Lines
pub mod LinesToCome
