pub mod Keys
pub mod Texts
pub mod Watching
pub mod Laws
