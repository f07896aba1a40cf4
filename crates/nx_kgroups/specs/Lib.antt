pub mod Outcomes
pub mod Codes
