pub mod Parts
pub mod Interleaving
pub mod Texts
