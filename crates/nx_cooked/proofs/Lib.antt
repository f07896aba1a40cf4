pub mod Good
pub mod Lying
pub mod Cooking
pub mod Putting
pub mod Delivering
