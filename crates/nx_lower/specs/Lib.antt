pub mod Shown
pub mod Code
pub mod Bodies
pub mod Laws
pub mod Sound
pub mod Programs
