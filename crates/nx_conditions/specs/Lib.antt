pub mod Tokens
pub mod Grammar
pub mod Parsing
pub mod Answers
pub mod Value
