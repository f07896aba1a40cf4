pub mod Taking
pub mod Others
pub mod Assigning
