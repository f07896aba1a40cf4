pub mod Kernels
pub mod Standing
pub mod Living
pub mod Coming
pub mod Running
