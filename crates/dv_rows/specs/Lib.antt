pub mod Adding
pub mod Changed
pub mod Kept
pub mod Noted
pub mod Parted
pub mod Places
pub mod Plans
pub mod Steps
