pub mod Cells
pub mod Peeling
pub mod Written
pub mod Acts
