pub mod NameAlone
pub mod Operators
