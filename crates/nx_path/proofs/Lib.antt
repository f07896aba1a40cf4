pub mod WalkLemmas
pub mod EntryLemmas
pub mod RenameLemmas
pub mod BootLemmas
