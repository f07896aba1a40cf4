pub mod EntryBits
pub mod Walked
pub mod Kept
pub mod EntriesPut
pub mod Steps
pub mod Views
