pub mod Commas
pub mod Reading
pub mod Answers
pub mod Files
