pub mod Short
pub mod Faults
pub mod Fronts
