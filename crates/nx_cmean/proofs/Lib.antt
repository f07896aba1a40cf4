pub mod Forms
mod Rows
pub mod Blocks
pub mod Arguments
