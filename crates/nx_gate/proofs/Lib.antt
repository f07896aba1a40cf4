pub mod Moves
pub mod FromRows
