pub mod Opened
pub mod Lengths
pub mod Weights
pub mod Fitting
pub mod Plans
