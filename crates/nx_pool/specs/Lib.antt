pub mod Chains
pub mod Apart
pub mod Effects
pub mod Moves
