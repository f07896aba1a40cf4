pub mod Places
pub mod Rooms
pub mod Lines
pub mod Waiting
pub mod Living
