pub mod Damaged
pub mod Depth
pub mod Asked
pub mod Supplied
pub mod Rows
pub mod Fetched
pub mod Met
pub mod Rooms
