pub mod Binds
pub mod Complete
pub mod Sound
