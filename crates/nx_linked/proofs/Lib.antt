pub mod Arrays
pub mod Staying
pub mod Objects
