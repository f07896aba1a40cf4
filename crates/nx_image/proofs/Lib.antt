pub mod Sums
pub mod Areas
pub mod Standing
