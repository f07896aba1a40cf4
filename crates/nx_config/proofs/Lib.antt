pub mod Choices
pub mod Entries
pub mod LineByLine
pub mod Lines
pub mod Ranges
pub mod Configuration
pub mod Texts
