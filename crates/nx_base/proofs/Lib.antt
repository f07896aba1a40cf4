pub mod ByteLemmas
pub mod CallNames
pub mod Digits
pub mod Finding
pub mod Puts
pub mod RegisterLemmas
pub mod Stores
mod Outputs
mod Marks
pub mod RangeLemmas
pub mod Shapes
pub mod WellFormed
