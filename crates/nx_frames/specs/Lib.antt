pub mod Chains
pub mod Zeros
pub mod Stock
