pub mod Names
pub mod Pieces
pub mod Progress
pub mod Outcomes
