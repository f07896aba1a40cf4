pub mod Fields
pub mod Only
