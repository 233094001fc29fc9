pub mod Works
pub mod Serving
pub mod Runs
