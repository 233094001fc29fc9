pub mod Runs
pub mod Parted
pub mod Measured
mod Deleting
mod Placed
mod Missing
mod Short
