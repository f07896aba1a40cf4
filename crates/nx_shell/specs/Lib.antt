pub mod Bytes
pub mod Kept
pub mod Walks
pub mod Shells
