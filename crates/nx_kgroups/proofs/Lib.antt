pub mod Regrouped
pub mod Vanishing
pub mod Members
pub mod Waited
pub mod Lines
pub mod Nth
