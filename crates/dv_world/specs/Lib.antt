pub mod Shapes
pub mod Keeping
pub mod Adding
pub mod Writing
pub mod Telling
pub mod Promising
