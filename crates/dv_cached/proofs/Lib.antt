pub mod Parts
pub mod Groups
pub mod Looking
pub mod Checks
pub mod Tables
pub mod Placing
