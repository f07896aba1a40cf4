pub mod Layout
pub mod Image
pub mod Bytes
pub mod Apart
