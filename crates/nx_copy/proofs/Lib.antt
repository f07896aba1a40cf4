pub mod Goods
pub mod Inputs
pub mod Outputs
