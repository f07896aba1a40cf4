pub mod Bits
pub mod Groups
pub mod Halts
pub mod Rows
pub mod Stretch
pub mod Words
pub mod Turns
