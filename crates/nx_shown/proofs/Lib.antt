pub mod Stores
pub mod Accesses
pub mod Steps
