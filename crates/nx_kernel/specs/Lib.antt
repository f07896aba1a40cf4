pub mod Parts
pub mod Waking
pub mod Doing
