pub mod Types
pub mod Rules
pub mod Answers
