pub mod Shortness
pub mod Counts
pub mod Laws
pub mod Leading
