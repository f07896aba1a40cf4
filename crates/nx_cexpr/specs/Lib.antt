pub mod Signs
pub mod Operands
pub mod Types
pub mod Reading
pub mod Answers
pub mod Laws
