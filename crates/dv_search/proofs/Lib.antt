pub mod Asking
pub mod Depths
pub mod Found
pub mod Looking
pub mod Meeting
pub mod Ready
pub mod Largest
pub mod Texts
