pub mod Answers
pub mod Kinds
pub mod Meanings
pub mod Rows
pub mod Table
pub mod Types
pub mod FaultTexts
