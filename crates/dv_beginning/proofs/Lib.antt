pub mod FoundStarts
mod GuidFiles
pub mod Starting
pub mod Readings
pub mod TrueFolders
mod Opened
mod Created
mod Looked
pub mod Alike
