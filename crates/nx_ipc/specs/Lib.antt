pub mod Tables
pub mod Rows
pub mod Semaphores
pub mod NextMessage
