pub mod Bits
pub mod Walks
pub mod Tables
