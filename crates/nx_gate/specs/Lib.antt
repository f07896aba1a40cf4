pub mod Gates
pub mod Proxies
