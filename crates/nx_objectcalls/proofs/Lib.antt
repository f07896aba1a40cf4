pub mod Rooms
pub mod Openings
pub mod Closing
pub mod Reading
pub mod Streams
