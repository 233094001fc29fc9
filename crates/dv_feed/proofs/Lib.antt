pub mod Words
pub mod Put
pub mod TakenWords
pub mod Decoding
pub mod Grouping
pub mod Marks
pub mod Instances
