pub mod Messages
pub mod Choosing
pub mod Joins
pub mod Rows
pub mod Blocks
pub mod Oldest
