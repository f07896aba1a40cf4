pub mod Standing
pub mod Costs
pub mod There
