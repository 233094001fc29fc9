pub mod Openings
pub mod Salvages
pub mod Rebuilds
pub mod Numbers
pub mod TrueCaches
pub mod Laws
