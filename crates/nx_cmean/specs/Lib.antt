pub mod Items
pub mod Meaning
pub mod Meanings
pub mod Runs
pub mod Homes
pub mod Lowered
pub mod Shape
