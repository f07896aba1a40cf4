pub mod Objects
pub mod Calls
pub mod Costs
pub mod Meaning
pub mod Runs
pub mod Faults
pub mod Laws
