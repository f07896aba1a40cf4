pub mod Finding
pub mod Chains
pub mod Booting
pub mod Places
pub mod SweptPlaces
pub mod Releasing
pub mod AtFirst
pub mod Closings
