pub mod Deciding
pub mod Bytes
pub mod Sizes
pub mod Kept
