pub mod Keeps
pub mod Programs
