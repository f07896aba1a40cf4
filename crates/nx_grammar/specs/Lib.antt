pub mod Reading
pub mod Chains
pub mod Lawful
pub mod Growing
pub mod Faults
pub mod Sparing
pub mod Nested
