pub mod Elements
pub mod Storing
pub mod Making
pub mod Stored
