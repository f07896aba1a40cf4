pub mod Functions
pub mod ItemForms
pub mod Refused
pub mod Valued
pub mod Walk
