pub mod Laws
pub mod Accesses
pub mod Jumps
