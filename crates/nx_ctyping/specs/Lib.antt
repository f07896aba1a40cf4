pub mod Trees
pub mod Checks
pub mod Verdicts
pub mod HasTypes
