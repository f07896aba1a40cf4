pub mod PastEnd
pub mod PutBytes
pub mod NoText
pub mod Bits
