pub mod Matching
pub mod Protection
pub mod Unit
