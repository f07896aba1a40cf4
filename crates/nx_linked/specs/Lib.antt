pub mod Linked
pub mod Meant
pub mod Standing
pub mod Doing
pub mod Laws
