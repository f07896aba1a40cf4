pub mod Frames
pub mod Entries
