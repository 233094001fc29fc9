pub mod Portions
pub mod Surveys
