pub mod Lists
pub mod Counts
pub mod Chains
pub mod Zeroed
pub mod Stocks
pub mod Fresh
pub mod Owners
