pub mod Ranges
pub mod Overlays
