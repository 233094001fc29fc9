pub mod Cells
pub mod Chunks
pub mod Shared
