pub mod Formats
pub mod Codes
pub mod Table
pub mod Execution
