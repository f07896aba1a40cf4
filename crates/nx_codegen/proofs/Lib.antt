pub mod Lengths
mod Sizes
mod Bounds
mod Fits
mod Fitted
mod Filling
mod Emitting
