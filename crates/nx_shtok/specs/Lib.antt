pub mod FaultTexts
pub mod Bytes
pub mod Words
pub mod Tokens
pub mod Answers
pub mod Views
pub mod Places
