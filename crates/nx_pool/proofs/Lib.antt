pub mod LinkLemmas
pub mod GrowthLemmas
pub mod EffectLemmas
pub mod PayloadLemmas
pub mod StoreLemmas
pub mod Holders
pub mod Appends
