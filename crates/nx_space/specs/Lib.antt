pub mod World
pub mod Places
pub mod Starts
pub mod Lawful
pub mod Shared
pub mod Flat
pub mod Protected
