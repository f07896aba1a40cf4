pub mod Reaching
pub mod Reached
pub mod Passing
pub mod Ended
