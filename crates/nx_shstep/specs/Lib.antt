pub mod Made
pub mod Rooms
pub mod Short
pub mod Held
