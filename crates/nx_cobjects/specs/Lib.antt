pub mod Values
pub mod Groups
pub mod Memory
pub mod Buffers
pub mod Starts
pub mod Memories
