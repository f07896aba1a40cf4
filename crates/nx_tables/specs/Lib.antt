pub mod Maps
pub mod Roles
pub mod ViewBytes
pub mod Laws
