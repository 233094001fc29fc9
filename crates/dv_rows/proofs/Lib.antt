pub mod GivenPlaces
pub mod Counting
pub mod Filtered
pub mod FlagChanges
pub mod Named
pub mod OtherPlaces
pub mod PartChanges
pub mod PutBack
pub mod PutParts
pub mod Putting
pub mod Rising
pub mod TwoParts
mod Stripped
mod Bounds
pub mod Walked
pub mod Walking
