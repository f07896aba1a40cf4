pub mod Steps
pub mod Starting
pub mod Whole
