pub mod Taking
pub mod Receiving
pub mod Writing
pub mod Entering
pub mod Consoles
