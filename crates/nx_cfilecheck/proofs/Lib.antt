pub mod Definitions
pub mod Forms
pub mod Programs
