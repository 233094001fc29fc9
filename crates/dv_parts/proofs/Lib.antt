pub mod Naming
pub mod Parting
pub mod Interleaving
pub mod Texts
