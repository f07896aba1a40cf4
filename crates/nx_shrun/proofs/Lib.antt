pub mod Lists
pub mod Structure
pub mod Bounded
pub mod WellFormed
pub mod Files
pub mod Grown
pub mod Placed
pub mod Forms
pub mod Arms
pub mod Rows
mod AbstractRows
pub mod AbstractSteps
