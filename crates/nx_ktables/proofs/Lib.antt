pub mod Booting
pub mod Answering
pub mod BootState
