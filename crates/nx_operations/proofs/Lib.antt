pub mod Numbers
pub mod Operators
pub mod Operations
pub mod Accesses
pub mod Jumps
