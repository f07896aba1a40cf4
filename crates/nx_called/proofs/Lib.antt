pub mod Lengths
pub mod Taking
pub mod Asking
pub mod Calling
pub mod Going
pub mod Ending
pub mod Giving
pub mod Called
