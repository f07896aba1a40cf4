pub mod Puts
pub mod Asks
