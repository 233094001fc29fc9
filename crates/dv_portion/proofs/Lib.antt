mod Joined
pub mod Portioned
pub mod Staying
pub mod Surveying
pub mod Tables
