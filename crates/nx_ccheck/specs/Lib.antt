pub mod Defined
pub mod Globals
pub mod Files
pub mod Scopes
pub mod TypedFiles
